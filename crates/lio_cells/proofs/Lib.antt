pub mod RoomLemmas
pub mod LogLemmas
pub mod NodeLemmas
pub mod ValueCrossing
pub mod Crossing
