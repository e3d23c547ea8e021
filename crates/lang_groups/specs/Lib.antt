pub mod Groups
pub mod Kept
pub mod Shapes
pub mod Machine
pub mod Found
pub mod Laws
