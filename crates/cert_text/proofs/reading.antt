pub mod ReadShapes
pub mod Outlines
pub mod ReadRests
