pub mod Gives
pub mod Entries
