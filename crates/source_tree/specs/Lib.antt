pub mod Expressions
pub mod Values
pub mod Statements
pub mod Extents
