pub mod Kept
pub mod Wholes
