pub mod Known
pub mod Settled
pub mod Readings
