pub mod Reports
pub mod Values
pub mod Claims
