pub mod Place
pub mod Segments
pub mod Modes
