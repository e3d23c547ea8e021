pub mod Joined
pub mod Worded
