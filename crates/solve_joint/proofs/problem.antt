pub mod Sources
pub mod PathForms
