pub mod AtOnce
pub mod Settled
