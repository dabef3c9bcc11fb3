pub mod StyleRead
pub mod Streams
pub mod Back
pub mod SignedBack
pub mod RuleRows
pub mod RowSizes
pub mod Walks
pub mod Writes
