pub mod Truth
pub mod Values
