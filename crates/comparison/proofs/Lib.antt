pub mod AttributeResults
pub mod MatchResults
pub mod BytesResults
