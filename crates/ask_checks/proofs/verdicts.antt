pub mod Everywhere
pub mod Turns
pub mod Once
pub mod SameBounds
