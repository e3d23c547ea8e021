pub mod Lines
pub mod InPieces
pub mod Putting
