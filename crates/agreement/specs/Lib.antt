pub mod SameRow
pub mod Calls
pub mod StepCall
pub mod ComputedRows
pub mod Demand
pub mod Agreed
pub mod LeastSuffice
pub mod VisibilityAside
