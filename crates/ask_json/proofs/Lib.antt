pub mod Rests
pub mod Pushed
pub mod told
pub mod log
