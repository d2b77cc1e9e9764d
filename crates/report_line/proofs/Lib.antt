pub mod Folding
pub mod Sectors
pub mod Passing
