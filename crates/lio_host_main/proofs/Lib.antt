pub mod Prepares
pub mod Finishes
pub mod Says
mod ViewLemmas
pub mod HistoryLemmas
pub mod ObservedLemmas
mod WorkloadLemmas
