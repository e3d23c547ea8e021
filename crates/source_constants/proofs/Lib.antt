pub mod enumerations
pub mod directives
pub mod placing
