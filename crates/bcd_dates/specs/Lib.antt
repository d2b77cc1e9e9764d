pub mod Decimals
pub mod Dates
