pub mod Joins
pub mod DictBuilds
