pub mod Onto
pub mod Tests
pub mod Changed
pub mod Nexts
pub mod Pushed
pub mod Arrays
