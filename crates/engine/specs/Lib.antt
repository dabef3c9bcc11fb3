pub mod Sheet
pub mod Compile
pub mod Page
pub mod Style
pub mod Run
pub mod Length
