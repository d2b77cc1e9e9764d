pub mod Blanks
pub mod Each
