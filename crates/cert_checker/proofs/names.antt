pub mod Items
pub mod Passed
