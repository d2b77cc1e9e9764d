pub mod Opening
pub mod Putting
pub mod Settled
