pub mod Extremes
pub mod Folded
pub mod Reached
pub mod Sound
