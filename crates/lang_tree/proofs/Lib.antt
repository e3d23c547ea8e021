pub mod cases
pub mod tree
pub mod Put
pub mod Grown
pub mod DeedCount
