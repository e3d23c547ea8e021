pub mod Loops
pub mod WalkSteps
