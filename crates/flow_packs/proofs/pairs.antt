pub mod Together
pub mod Counts
