mod LoadLemmas
mod TextLemmas
mod InputLemmas
mod TakenLemmas
mod SumLemmas
mod SendLemmas
pub mod WriteLemmas
mod WalkLemmas
