pub mod reports
pub mod told
pub mod states
