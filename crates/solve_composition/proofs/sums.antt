pub mod Products
pub mod Columns
