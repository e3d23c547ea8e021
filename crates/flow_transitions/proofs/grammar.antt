pub mod Lists
pub mod Accepts
