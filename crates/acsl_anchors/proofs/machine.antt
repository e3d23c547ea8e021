pub mod Skipped
pub mod Scopes
pub mod Found
pub mod Functions
pub mod Parts
