pub mod Gcds
pub mod Coprimes
