pub mod Integers
pub mod Decimals
pub mod Reals
