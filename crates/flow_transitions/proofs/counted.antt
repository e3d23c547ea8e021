pub mod Ways
pub mod Grouped
