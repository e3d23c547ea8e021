pub mod Signed
pub mod Listing
pub mod Starting
