pub mod firsts
pub mod lists
pub mod breaking
pub mod verdicts
pub mod laws
pub mod Rests
