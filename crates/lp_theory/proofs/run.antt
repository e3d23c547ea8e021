pub mod Agrees
pub mod Phases
pub mod PhaseRuns
pub mod HasRows
