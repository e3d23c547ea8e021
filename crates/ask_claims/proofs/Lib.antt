pub mod laws
pub mod Rests
pub mod grammar
pub mod claims
