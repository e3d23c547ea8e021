pub mod Fractions
pub mod Adding
pub mod Made
pub mod Limits
