pub mod Moves
pub mod Carries
pub mod Numbers
pub mod Lows
pub mod Raises
pub mod Laws
