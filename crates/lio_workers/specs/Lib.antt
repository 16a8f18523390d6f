pub mod Seated
pub mod Ends
pub mod Looks
