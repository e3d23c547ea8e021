pub mod Chained
pub mod ChoicesAgree
pub mod Improvements
pub mod Listing
pub mod OneNumber
