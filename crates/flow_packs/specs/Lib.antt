pub mod Packs
pub mod Laws
