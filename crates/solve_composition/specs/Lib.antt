pub mod Composed
pub mod Operations
pub mod Faults
pub mod Sums
pub mod Walks
pub mod ComposedLaws
pub mod Value
pub mod Behind
