pub mod Judged
pub mod Once
