pub mod Elements
pub mod Items
pub mod Divisions
pub mod Laws
pub mod Begun
pub mod Machine
pub mod Standing
