pub mod Terms
pub mod Points
pub mod Values
pub mod Heads
