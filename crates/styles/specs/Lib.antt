pub mod Answer
pub mod Lent
pub mod Said
pub mod Computed
pub mod StyleCall
pub mod Says
pub mod Merged
pub mod Room
