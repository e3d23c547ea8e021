pub mod Stacks
pub mod Starts
pub mod Reached
pub mod Found
pub mod Plain
pub mod Exact
pub mod Turns
pub mod Once
