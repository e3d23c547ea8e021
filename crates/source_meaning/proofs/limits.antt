pub mod Limited
pub mod Deeds
