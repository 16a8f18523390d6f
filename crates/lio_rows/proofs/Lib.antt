pub mod LowNames
pub mod LogRows
pub mod TableRows
