pub mod PhaseLoops
pub mod LoopSteps
