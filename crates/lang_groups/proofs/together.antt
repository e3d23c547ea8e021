pub mod Bools
pub mod Members
pub mod Same
pub mod Kept
