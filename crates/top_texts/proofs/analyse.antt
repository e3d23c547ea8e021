pub mod Solved
pub mod Systems
pub mod Halted
pub mod Made
