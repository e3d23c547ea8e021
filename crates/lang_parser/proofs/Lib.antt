pub mod meaning
pub mod walk
