pub mod Once
pub mod Systems
