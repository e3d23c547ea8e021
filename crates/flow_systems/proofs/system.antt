pub mod CellSums
