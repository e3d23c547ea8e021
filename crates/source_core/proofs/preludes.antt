pub mod Preludes
pub mod Parts
pub mod Held
pub mod Results
