pub mod Complete
pub mod Sound
pub mod Unique
pub mod OncePieces
pub mod Once
pub mod Flat
