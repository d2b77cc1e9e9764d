pub mod Slots
pub mod Desks
