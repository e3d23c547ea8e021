pub mod meaning
pub mod trees
pub mod wholes
