pub mod RunAnswer
pub mod Ready
