pub mod Known
pub mod Named
pub mod Settled
pub mod Numbers
pub mod Sector
pub mod Edges
