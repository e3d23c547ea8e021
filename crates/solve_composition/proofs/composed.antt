pub mod Dense
pub mod Edges
pub mod Means
