pub mod Signs
pub mod Scans
