pub mod ReadingLaws
pub mod WeightLaws
pub mod StyleLaws
pub mod FoundLaws
pub mod PassingLaws
pub mod StepLaws
