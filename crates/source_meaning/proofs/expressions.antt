pub mod Over
pub mod Within
pub mod Fits
pub mod Apart
pub mod Whole
