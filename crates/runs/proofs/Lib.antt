pub mod Keys
pub mod Groups
pub mod Steps
pub mod Far
pub mod Words
pub mod Puts
