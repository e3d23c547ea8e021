pub mod Firsts
pub mod Lists
pub mod Breaking
pub mod Verdicts
pub mod Lines
pub mod Laws
