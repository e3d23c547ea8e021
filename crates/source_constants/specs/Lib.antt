pub mod Parts
pub mod Directives
pub mod Enumerations
pub mod Items
pub mod Definitions
