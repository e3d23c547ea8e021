pub mod Words
pub mod Steps
pub mod Certificates
pub mod Transformers
pub mod Decide
pub mod Faults
pub mod Laws
