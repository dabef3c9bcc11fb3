pub mod Utf8
pub mod WhiteSpace
pub mod Literal
pub mod Trim
