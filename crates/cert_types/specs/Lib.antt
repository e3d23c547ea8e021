pub mod Certificates
pub mod Shaped
