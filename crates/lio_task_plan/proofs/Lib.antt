pub mod FrontLemmas
pub mod LeadsLemmas
pub mod ShortLemmas
pub mod TwoLemmas
