pub mod KeptStores
pub mod Lying
pub mod Placed
pub mod Called
pub mod Room
pub mod Merging
pub mod Agreeing
pub mod StyleRows
