pub mod Ranges
pub mod Anchors
pub mod Slashes
pub mod Ends
pub mod Tokens
