pub mod Specificity
pub mod Slot
pub mod Record
pub mod Row
pub mod Related
pub mod Agreeing
pub mod Cases
