pub mod Decoded
pub mod Number
pub mod Text
pub mod Component
pub mod Style
pub mod Sheet
pub mod Answer
pub mod Wrote
