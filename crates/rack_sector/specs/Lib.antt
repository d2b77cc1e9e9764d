pub mod Sector
