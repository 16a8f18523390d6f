pub mod CutLemmas
pub mod ReadingLemmas
pub mod LabelLemmas
pub mod NumberLemmas
pub mod PlainLemmas
pub mod ListLemmas
pub mod KindLemmas
pub mod ValueLemmas
pub mod ReplyLemmas
pub mod ActLemmas
pub mod BirthLemmas
pub mod LineLemmas
pub mod EndLemmas
pub mod OneTextLemmas
mod AllLemmas
mod ItemLemmas
