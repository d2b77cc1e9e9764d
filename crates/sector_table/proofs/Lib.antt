pub mod Admitted
pub mod Table
pub mod Rows
pub mod Bounds
