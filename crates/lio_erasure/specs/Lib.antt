pub mod Acts
pub mod Low
pub mod LowParts
pub mod Moves
pub mod Turn
