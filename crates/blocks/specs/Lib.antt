pub mod Blocks
pub mod Marking
pub mod Record
