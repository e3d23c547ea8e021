pub mod Vectors
pub mod Templates
pub mod Reports
pub mod Summaries
pub mod Once
