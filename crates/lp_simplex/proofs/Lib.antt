pub mod operations
pub mod placed
