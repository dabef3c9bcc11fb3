pub mod Handed
pub mod RowSteps
pub mod Enough
pub mod RunCalls
