pub mod UpperSources
pub mod Marks
pub mod Forgotten
pub mod Unchanged
