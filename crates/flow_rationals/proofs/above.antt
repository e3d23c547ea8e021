pub mod AboveIsPost
pub mod Examples
pub mod LeastAbove
pub mod Places
pub mod PostIsAbove
