pub mod Once
pub mod Every
pub mod Walked
pub mod Named
pub mod Names
