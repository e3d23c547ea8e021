pub mod Crossing
pub mod Chosen
