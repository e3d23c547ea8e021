pub mod Edges
pub mod Traces
