pub mod Leastness
pub mod FitsProgram
pub mod Counting
