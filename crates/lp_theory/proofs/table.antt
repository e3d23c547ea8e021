pub mod TablePivots
pub mod PlainTables
