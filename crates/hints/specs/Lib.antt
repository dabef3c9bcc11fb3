pub mod Hints
pub mod Skipping
