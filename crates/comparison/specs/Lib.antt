pub mod Attributes
pub mod Matches
pub mod Bytes
