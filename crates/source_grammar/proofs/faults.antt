pub mod Scanned
pub mod Exact
