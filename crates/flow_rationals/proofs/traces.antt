pub mod Alternatives
pub mod Rows
pub mod Starts
