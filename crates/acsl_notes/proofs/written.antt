pub mod Forms
pub mod Lexed
pub mod Names
pub mod Rows
pub mod Says
pub mod Spelled
pub mod Terms
pub mod Values
