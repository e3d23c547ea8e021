pub mod Exact
pub mod Scanned
