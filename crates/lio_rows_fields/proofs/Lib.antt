pub mod Added
pub mod ListLemmas
