pub mod Grades
pub mod Led
pub mod Longest
pub mod Heads
pub mod Openings
pub mod Spellings
pub mod CGrades
pub mod Numbers
