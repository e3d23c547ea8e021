pub mod steps
pub mod words
pub mod certificates
pub mod faults
