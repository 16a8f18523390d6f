pub mod Generated
pub mod Workload
pub mod Order
pub mod Verdict
pub mod Observed
pub mod Answers
pub mod Laws
