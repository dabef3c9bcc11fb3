pub mod Visiting
pub mod Passing
pub mod Telling
