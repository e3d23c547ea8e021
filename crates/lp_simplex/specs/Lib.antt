pub mod Operations
pub mod Choices
pub mod Placed
pub mod Outcomes
pub mod Answers
