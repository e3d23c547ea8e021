pub mod ByC
pub mod Laws
