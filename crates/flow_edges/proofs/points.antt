pub mod Numbering
pub mod Examples
pub mod DeedExamples
