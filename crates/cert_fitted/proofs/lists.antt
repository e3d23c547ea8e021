pub mod Maps
pub mod Values
