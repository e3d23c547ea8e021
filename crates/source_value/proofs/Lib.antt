pub mod kept
pub mod answers
