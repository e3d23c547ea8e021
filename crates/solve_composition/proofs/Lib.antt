pub mod faults
pub mod composed
pub mod Places
pub mod Ranges
pub mod operations
pub mod behind
