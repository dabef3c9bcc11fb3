pub mod StyleAnswer
pub mod Styling
pub mod Fronts
pub mod Claim
