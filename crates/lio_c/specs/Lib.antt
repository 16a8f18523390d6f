pub mod Netstrings
pub mod Reading
pub mod Bundle
pub mod Alone
pub mod Answers
pub mod Laws
pub mod Told
