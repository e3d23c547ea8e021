pub mod requests
pub mod commands
pub mod answers
pub mod outputs
