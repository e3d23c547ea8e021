pub mod Answered
pub mod OneEnding
