pub mod Taken
pub mod Whitespace
pub mod Name
pub mod Number
pub mod Quoted
pub mod Token
pub mod TokenRow
