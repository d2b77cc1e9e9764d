pub mod Back
pub mod RoundTrip
pub mod Others
pub mod Points
pub mod Carried
pub mod Rounds
pub mod Cards
pub mod Ones
