pub mod Once
pub mod Solved
pub mod OneText
