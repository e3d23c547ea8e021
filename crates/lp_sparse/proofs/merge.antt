pub mod SingleEntries
pub mod Gaps
pub mod Merging
