pub mod Binds
pub mod Names
pub mod Numbered
pub mod Points
pub mod Parts
pub mod Matches
pub mod Functions
