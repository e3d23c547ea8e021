pub mod Picking
pub mod Blocked
