pub mod Position
pub mod Settled
pub mod Stamped
pub mod Edges
