pub mod Tables
pub mod Settled
pub mod Revised
