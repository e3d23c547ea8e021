pub mod Spelled
pub mod Ending
