mod InputLemmas
mod ClaimLemmas
mod CheckLemmas
mod ExpectedLemmas
pub mod Says
