pub mod Kept
pub mod Answers
pub mod Codes
pub mod Stands
pub mod Operations
pub mod Steps
