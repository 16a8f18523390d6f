pub mod KnownFiles
pub mod Numbers
