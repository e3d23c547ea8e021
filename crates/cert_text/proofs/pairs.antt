pub mod PairTexts
pub mod Ascending
