pub mod Area
pub mod Fed
pub mod Feeder
pub mod Spared
pub mod OneLine
