pub mod Coded
pub mod Reading
pub mod Once
