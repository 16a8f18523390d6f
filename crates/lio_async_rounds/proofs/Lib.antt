pub mod RoundLemmas
pub mod FutureLemmas
pub mod ViewLemmas
pub mod StreamLemmas
pub mod LawLemmas
