mod PastLemmas
mod CountLemmas
mod TurnLemmas
mod ExplainedLemmas
pub mod Says
