pub mod Lines
pub mod Call
pub mod Phase
pub mod Loops
