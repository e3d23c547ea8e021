pub mod opposite
pub mod said
pub mod standing
pub mod truth
pub mod written
