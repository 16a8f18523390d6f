pub mod Operands
pub mod Procedure
pub mod StateOf
pub mod Turns
