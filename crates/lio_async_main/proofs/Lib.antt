pub mod WordLemmas
pub mod CoopLemmas
pub mod ViewLemmas
