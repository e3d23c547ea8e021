pub mod Entries
pub mod Multiples
pub mod Exceeding
