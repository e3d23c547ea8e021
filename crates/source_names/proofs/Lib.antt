pub mod results
pub mod entries
