pub mod Leads
pub mod Planned
