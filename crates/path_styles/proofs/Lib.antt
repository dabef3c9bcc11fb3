pub mod TopsLaws
pub mod PathLaws
pub mod RulesMerging
