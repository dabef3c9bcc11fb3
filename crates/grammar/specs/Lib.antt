pub mod Nth
pub mod Selectors
pub mod Tokens
pub mod Values
pub mod Balanced
pub mod Declarations
pub mod Sheets
pub mod Starts
