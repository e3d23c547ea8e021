pub mod Verdicts
pub mod Claims
pub mod Checks
pub mod Sarif
pub mod Told
