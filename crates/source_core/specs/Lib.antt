pub mod Forms
pub mod Preludes
pub mod Elaborated
pub mod Laws
pub mod Fits
pub mod Core
pub mod SourceRuns
pub mod RunLaws
