pub mod Ring
pub mod Linear
pub mod Rows
pub mod Simplex
pub mod Linarith
mod RingExamples
mod LinearExamples
mod LinarithExamples
