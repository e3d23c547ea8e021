pub mod Counts
pub mod Functions
pub mod Tokens
pub mod Keys
pub mod Steps
