pub mod feed
pub mod counts
pub mod texts
