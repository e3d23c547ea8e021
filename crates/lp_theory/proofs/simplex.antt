pub mod Roles
pub mod ReadOff
pub mod Outcomes
pub mod EnteredTables
mod Sample
