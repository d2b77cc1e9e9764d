pub mod Rows
pub mod Ranges
pub mod Adding
pub mod Possible
