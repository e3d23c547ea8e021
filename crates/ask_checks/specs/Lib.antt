pub mod Places
pub mod Verdicts
pub mod Lines
pub mod Laws
