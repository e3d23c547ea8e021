pub mod Uppers
pub mod MadeNeeds
