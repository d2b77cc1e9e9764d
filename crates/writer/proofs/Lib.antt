pub mod Laying
pub mod OneRun
pub mod Settled
pub mod Ways
