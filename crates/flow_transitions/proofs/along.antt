pub mod ActLaw
pub mod Bounded
