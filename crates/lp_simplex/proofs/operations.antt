pub mod AgreeOperations
pub mod Numbering
pub mod PhaseSteps
