pub mod Books
pub mod Steps
pub mod Expressions
pub mod Changes
pub mod Statements
pub mod Functions
