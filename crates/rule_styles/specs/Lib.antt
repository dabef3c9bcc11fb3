pub mod Deciding
pub mod Sifting
pub mod Placing
pub mod PlacingRoom
pub mod Held
