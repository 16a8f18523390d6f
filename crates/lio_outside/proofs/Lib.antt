pub mod FileMapLemmas
pub mod CountLemmas
pub mod KeepLemmas
pub mod StepsLemmas
pub mod OutputLemmas
mod EntriesLemmas
