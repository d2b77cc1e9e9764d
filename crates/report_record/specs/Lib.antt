pub mod Sums
pub mod Report
pub mod Possible
