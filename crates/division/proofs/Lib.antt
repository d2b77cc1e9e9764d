pub mod Division
pub mod Word
pub mod Starts
pub mod Inverted
pub mod Zeros
