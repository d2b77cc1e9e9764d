pub mod LineBits
pub mod Eight
pub mod Copying
pub mod Spanning
