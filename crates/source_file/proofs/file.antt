pub mod Told
pub mod Meant
pub mod Fronts
pub mod Found
