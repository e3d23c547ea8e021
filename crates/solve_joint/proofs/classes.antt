pub mod Homes
pub mod Classing
