pub mod Draws
pub mod Texts
pub mod Bodies
pub mod Summaries
pub mod Law
