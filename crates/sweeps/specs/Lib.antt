pub mod Place
pub mod Met
pub mod Swept
