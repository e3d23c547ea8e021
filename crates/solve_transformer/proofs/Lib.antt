pub mod splits
pub mod values
pub mod place_laws
