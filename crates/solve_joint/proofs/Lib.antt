pub mod numbers
pub mod tables
pub mod rows
pub mod blocks
pub mod layouts
