pub mod Translated
pub mod WordReads
