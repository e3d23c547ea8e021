pub mod CellCounts
