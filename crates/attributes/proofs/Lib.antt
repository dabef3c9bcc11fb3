pub mod Fronts
pub mod InlineLaws
pub mod ColourLaws
pub mod AttributeLaws
pub mod TurnLaws
