pub mod Pieces
pub mod State
pub mod Room
pub mod Log
pub mod Node
