pub mod NumeralLaws
pub mod DimensionLaws
pub mod TokenLaws
pub mod HeightLengthLaws
pub mod Exact
