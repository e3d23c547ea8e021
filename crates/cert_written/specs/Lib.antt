pub mod Pairs
pub mod Entries
pub mod Bare
pub mod Shaped
