pub mod Fits
pub mod Start
pub mod Making
pub mod Laws
pub mod Job
