pub mod Settled
pub mod Which
