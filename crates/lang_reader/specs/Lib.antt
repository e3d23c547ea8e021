pub mod Names
pub mod Values
pub mod Views
pub mod Frames
pub mod Modes
pub mod Steps
