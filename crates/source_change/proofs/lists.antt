pub mod Deeds
pub mod Statements
pub mod Pushed
