pub mod Good
pub mod Turns
pub mod Grows
pub mod Walked
