pub mod Turns
pub mod Columns
pub mod Points
pub mod AsBefore
