pub mod ShapeLemmas
pub mod ConvertedLemmas
pub mod DocumentLemmas
pub mod FailingLemmas
pub mod DraftedLemmas
pub mod EntryLemmas
pub mod ArgLemmas
