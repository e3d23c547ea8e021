pub mod Lists
pub mod Steps
pub mod Evidence
pub mod Shaped
