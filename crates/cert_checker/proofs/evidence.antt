pub mod Columns
pub mod Events
pub mod Sums
