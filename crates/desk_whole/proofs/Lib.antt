pub mod Chains
pub mod LowestFree
