pub mod Accepted
pub mod Refused
pub mod Upgraded
pub mod CheckOnce
pub mod Fitting
