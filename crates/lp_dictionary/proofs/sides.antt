pub mod LeastSides
