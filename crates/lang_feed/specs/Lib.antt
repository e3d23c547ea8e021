pub mod Width
pub mod Readings
