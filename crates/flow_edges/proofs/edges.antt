pub mod WaysLaw
pub mod Trailing
pub mod CountLaws
pub mod Ranges
