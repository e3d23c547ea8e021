pub mod BoundCounts
pub mod Counting
pub mod Outcomes
pub mod RoundCounts
pub mod StepCounts
