pub mod RoundsFuture
pub mod ViewStream
pub mod Laws
