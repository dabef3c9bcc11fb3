pub mod CodePieceLaws
pub mod CodeCompoundLaws
pub mod CodePartLaws
pub mod CodeSweepLaws
