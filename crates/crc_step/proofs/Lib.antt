pub mod Steps
pub mod Preset
