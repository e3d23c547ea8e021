pub mod Shapes
pub mod Targets
pub mod Packs
pub mod Parts
pub mod Machine
pub mod Search
