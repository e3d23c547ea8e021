pub mod States
pub mod Frees
pub mod Numbers
pub mod Pushed
