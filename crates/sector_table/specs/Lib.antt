pub mod Layout
pub mod Asked
pub mod Place
