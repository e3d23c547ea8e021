pub mod Programs
pub mod Expressions
