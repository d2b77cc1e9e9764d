pub mod Histories
pub mod Tests
