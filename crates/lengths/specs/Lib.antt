pub mod Number
pub mod Unit
pub mod Length
pub mod Numeral
pub mod HeightLength
pub mod Reading
pub mod Cases
