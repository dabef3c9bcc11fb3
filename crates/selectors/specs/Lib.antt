pub mod Outcome
pub mod Selector
pub mod SelectorList
pub mod Stores
pub mod Reading
pub mod NthAnswer
pub mod Components
pub mod ComponentAnswer
