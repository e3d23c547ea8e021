pub mod picks
pub mod round
pub mod pick_count
pub mod growth
