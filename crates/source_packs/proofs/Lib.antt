pub mod Positions
pub mod Seen
pub mod machine
pub mod found
