pub mod FewCells
pub mod Steps
pub mod Within
