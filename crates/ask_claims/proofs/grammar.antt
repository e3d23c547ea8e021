pub mod Spelling
pub mod Unexpected
pub mod Unique
