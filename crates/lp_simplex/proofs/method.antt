pub mod Evidences
pub mod Begins
pub mod Ends
pub mod Counted
