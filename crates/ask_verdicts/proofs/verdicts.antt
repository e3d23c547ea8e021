pub mod Words
pub mod SameBounds
pub mod Once
pub mod Turns
