pub mod ChecksLaws
pub mod Parts
pub mod WalkLaws
pub mod RuleStyles
pub mod ReadingLaws
pub mod SheetsLaws
pub mod SheetsKnown
