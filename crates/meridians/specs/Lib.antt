pub mod Meridians
pub mod Before
