pub mod Steps
pub mod Wire
pub mod Turn
pub mod Settled
