pub mod Decimal
pub mod Places
pub mod Rounded
pub mod Looked
pub mod Decided
