pub mod Parts
pub mod Digits
pub mod Edges
