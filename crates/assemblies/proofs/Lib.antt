pub mod Marking
pub mod Stored
pub mod Advance
pub mod Later
pub mod Run
pub mod Skips
pub mod Revised
pub mod AsBefore
