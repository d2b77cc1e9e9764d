pub mod Lines
pub mod Dates
pub mod Stamps
