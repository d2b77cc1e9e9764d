pub mod Puts
pub mod Settled
pub mod RoundTrip
pub mod Edges
