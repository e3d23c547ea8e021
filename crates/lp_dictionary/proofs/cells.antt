pub mod Cells
pub mod RowLoops
pub mod DictPivots
pub mod DictLeaves
pub mod DictStarts
