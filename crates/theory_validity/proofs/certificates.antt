pub mod StepNumbers
pub mod Uppers
pub mod Needs
pub mod Greatest
pub mod Entered
pub mod Example
