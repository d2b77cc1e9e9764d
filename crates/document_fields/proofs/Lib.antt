pub mod Served
pub mod Readings
pub mod Settled
pub mod Edges
