pub mod Takes
pub mod Groups
