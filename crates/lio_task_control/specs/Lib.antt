pub mod Bound
pub mod Continuation
pub mod Front
pub mod Parts
pub mod Hiding
