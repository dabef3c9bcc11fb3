pub mod Styled
pub mod Proved
pub mod Computed
pub mod Declared
pub mod Sheets
