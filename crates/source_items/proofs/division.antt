pub mod Written
pub mod Runs
pub mod Parts
pub mod Found
pub mod Stood
pub mod Once
pub mod Answered
