pub mod OneAnswer
pub mod Once
