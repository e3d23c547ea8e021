pub mod Turns
pub mod Tokens
pub mod Enough
pub mod Counts
pub mod Keys
pub mod Lists
