pub mod Places
pub mod Within
pub mod Faulted
