pub mod Register
pub mod Sync
pub mod Step
pub mod Wire
