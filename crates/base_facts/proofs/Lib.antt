pub mod Options
pub mod Lists
pub mod Ranges
pub mod elements
