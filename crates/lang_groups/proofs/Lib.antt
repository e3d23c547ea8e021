pub mod together
pub mod runs
