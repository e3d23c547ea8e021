pub mod Compared
pub mod Tests
