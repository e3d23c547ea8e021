pub mod Reps
pub mod Laws
pub mod Parts
pub mod Quotients
pub mod Lowest
