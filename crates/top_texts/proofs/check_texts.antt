pub mod Listed
pub mod Judged
pub mod OneText
pub mod Cased
