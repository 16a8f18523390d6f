pub mod Words
pub mod Past
pub mod Troubles
pub mod Turns
pub mod Telling
pub mod Explained
pub mod Answers
