pub mod Laws
pub mod Is
pub mod OfLines
pub mod Stays
pub mod InBuffer
pub mod Passes
pub mod Recordings
