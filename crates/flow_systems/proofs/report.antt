pub mod Examples
pub mod BoundTexts
