pub mod grammar
pub mod row_files
pub mod kept
pub mod counted
