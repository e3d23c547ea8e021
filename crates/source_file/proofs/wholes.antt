pub mod Turns
pub mod Spelled
pub mod Parts
pub mod Functions
