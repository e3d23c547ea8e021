pub mod Dictionaries
pub mod Clash
pub mod Drops
pub mod Tables
