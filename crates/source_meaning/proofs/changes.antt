pub mod Over
pub mod Fits
pub mod Apart
