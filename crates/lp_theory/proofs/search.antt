pub mod Searches
pub mod Steps
pub mod Stops
pub mod Programs
pub mod Runs
pub mod Places
pub mod PhasePlaces
