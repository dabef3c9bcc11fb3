pub mod Table
pub mod Compare
pub mod Steps
pub mod Parts
pub mod Deciding
pub mod Float
