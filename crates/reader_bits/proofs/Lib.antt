pub mod Resume
pub mod TailTest
pub mod Masks
pub mod Going
