pub mod Bounds
pub mod Items
pub mod Points
pub mod Rows
