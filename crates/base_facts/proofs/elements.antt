pub mod Membership
pub mod Pigeonhole
