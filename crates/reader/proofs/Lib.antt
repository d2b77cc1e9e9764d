pub mod Ways
pub mod Settled
