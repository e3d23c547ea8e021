pub mod Readings
pub mod Once
