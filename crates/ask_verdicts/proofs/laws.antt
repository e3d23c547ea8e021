pub mod Held
pub mod Determined
pub mod Sizes
