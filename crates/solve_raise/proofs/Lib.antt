pub mod numbers
pub mod moves
pub mod lows
