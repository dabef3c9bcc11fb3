pub mod Path
pub mod Rows
pub mod Ancestors
pub mod Accepted
pub mod CheckAnswers
pub mod PathOf
pub mod Lent
pub mod Cases
