pub mod Onto
pub mod Parts
pub mod Whole
pub mod Headed
pub mod Starts
