pub mod answers
pub mod reading
