pub mod Scalars
pub mod Reading
pub mod RoundTrip
pub mod Texts
pub mod WhiteSpaces
pub mod Trimming
