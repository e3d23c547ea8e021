pub mod Gaps
pub mod Places
pub mod Plain
pub mod Said
