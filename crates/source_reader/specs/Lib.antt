pub mod Brackets
pub mod Units
pub mod Marks
pub mod Reading
pub mod Answers
pub mod Placed
