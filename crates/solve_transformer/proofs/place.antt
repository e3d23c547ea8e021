pub mod Nothing
pub mod Sums
pub mod Sources
pub mod Outcomes
pub mod Answered
