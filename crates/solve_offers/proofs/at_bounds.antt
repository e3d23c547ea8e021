pub mod KnownValues
pub mod Ranges
