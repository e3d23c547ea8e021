pub mod Widths
pub mod Wholes
pub mod Towards
