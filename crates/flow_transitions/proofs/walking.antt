pub mod Levels
pub mod Spelled
pub mod Leads
pub mod Whole
pub mod Once
