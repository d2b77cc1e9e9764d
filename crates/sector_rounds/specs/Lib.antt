pub mod Cleared
pub mod Puts
