pub mod at_bounds
pub mod offers
pub mod ValuesAgree
