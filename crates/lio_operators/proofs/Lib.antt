pub mod TextLemmas
pub mod WholeLemmas
pub mod ListLemmas
pub mod OperatorLemmas
