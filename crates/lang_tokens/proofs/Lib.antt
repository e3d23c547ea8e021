pub mod reading
pub mod lexemes
