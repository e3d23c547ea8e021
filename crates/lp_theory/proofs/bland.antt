pub mod Pigeons
pub mod PhaseOne
pub mod Measures
