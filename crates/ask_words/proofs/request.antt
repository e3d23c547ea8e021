pub mod AnyName
pub mod OfSolve
