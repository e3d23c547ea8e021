pub mod Sources
pub mod Built
