pub mod Numbers
pub mod Answered
pub mod Lent
pub mod Words
pub mod Given
pub mod Chains
pub mod Says
pub mod Exactly
