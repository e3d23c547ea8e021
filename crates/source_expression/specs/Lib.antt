pub mod Signs
pub mod Sides
pub mod Readings
pub mod Joins
pub mod Lists
