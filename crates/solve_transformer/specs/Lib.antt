pub mod Values
pub mod Splits
pub mod Readings
pub mod Meanings
pub mod Places
pub mod PlaceLaws
