pub mod GrownTo
pub mod Marked
