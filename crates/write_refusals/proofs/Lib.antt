pub mod Overs
pub mod Writable
