pub mod WidthLemmas
pub mod FaultLemmas
pub mod GuardLemmas
pub mod AllLaws
