pub mod Rules
pub mod DeclRow
pub mod Leaving
pub mod Styles
pub mod StyleNumbers
pub mod Attribute
pub mod Moved
