pub mod Fits
pub mod Puts
pub mod Trees
