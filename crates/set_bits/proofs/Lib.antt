pub mod Stretches
pub mod Words
pub mod Turns
