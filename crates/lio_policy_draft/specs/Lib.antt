pub mod Converted
pub mod Shape
pub mod Failing
pub mod Drafted
pub mod Parts
pub mod Entries
pub mod Limits
