pub mod Fitting
pub mod Settled
pub mod Paper
