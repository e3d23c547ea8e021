pub mod Widths
pub mod Entries
pub mod cells
pub mod listed
pub mod pivot_operations
pub mod kept
