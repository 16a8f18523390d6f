pub mod Escape
pub mod Turns
pub mod Within
