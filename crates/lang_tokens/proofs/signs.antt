pub mod Longest
pub mod Marks
pub mod Best
