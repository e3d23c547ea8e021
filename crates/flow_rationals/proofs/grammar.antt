pub mod Complete
pub mod Sound
pub mod Going
pub mod Whole
pub mod Lengths
pub mod Once
