pub mod RunLemmas
pub mod MergeLemmas
pub mod SeatLemmas
mod Crossing
