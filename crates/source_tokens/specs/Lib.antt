pub mod Constants
pub mod View
pub mod Texts
