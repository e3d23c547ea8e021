pub mod Reaching
pub mod NextPart
pub mod PartsLaw
pub mod PartsRise
