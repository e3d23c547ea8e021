pub mod Analysed
pub mod Found
pub mod Unanswered
