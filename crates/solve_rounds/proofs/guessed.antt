pub mod Highs
pub mod ReachedBy
pub mod ReachedFacts
pub mod ValidRay
