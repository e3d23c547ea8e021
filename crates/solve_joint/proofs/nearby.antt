pub mod Numbering
pub mod SameCut
