pub mod Reading
pub mod Merging
pub mod Passing
pub mod Opened
pub mod Lent
