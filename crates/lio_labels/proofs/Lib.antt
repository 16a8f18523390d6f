pub mod FlowLemmas
pub mod BoundLemmas
pub mod PrivilegeLemmas
pub mod DowngradeLemmas
pub mod WidthLemmas
pub mod NamedLemmas
pub mod TextLemmas
pub mod AllLaws
