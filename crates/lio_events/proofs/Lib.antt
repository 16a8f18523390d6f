pub mod RisingLemmas
pub mod PrintableLemmas
pub mod ViewLaws
pub mod ViewLemmas
