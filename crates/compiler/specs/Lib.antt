pub mod Selectors
pub mod Writing
pub mod CompileAnswer
pub mod Written
pub mod Given
