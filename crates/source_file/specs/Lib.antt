pub mod Functions
pub mod Choice
pub mod Meaning
pub mod Gives
pub mod Width
pub mod Laws
