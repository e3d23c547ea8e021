pub mod Operated
pub mod Answered
