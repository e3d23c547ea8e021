pub mod Added
pub mod Numbers
pub mod Sound
pub mod Counted
pub mod Apart
