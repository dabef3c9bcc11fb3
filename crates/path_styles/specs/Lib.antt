pub mod Tops
pub mod Path
