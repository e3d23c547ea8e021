pub mod Answered
pub mod Binds
