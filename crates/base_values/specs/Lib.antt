pub mod Outline
pub mod Places
pub mod Elements
pub mod Documents
