pub mod Combinations
pub mod EvidenceTests
pub mod RayTests
pub mod StepTests
pub mod Stops
pub mod Totals
