pub mod Declarators
pub mod Updates
pub mod Sizes
