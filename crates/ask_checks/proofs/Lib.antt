pub mod places
pub mod verdicts
pub mod laws
pub mod Rests
