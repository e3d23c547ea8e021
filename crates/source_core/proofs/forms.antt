pub mod Integers
pub mod Tests
pub mod Forms
pub mod Over
pub mod Lacks
pub mod Quotients
