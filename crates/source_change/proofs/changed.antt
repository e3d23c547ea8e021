pub mod Aims
pub mod Taken
pub mod Made
pub mod Sets
pub mod Updated
