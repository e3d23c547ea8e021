pub mod Keys
pub mod Placing
