pub mod Values
pub mod ProgramPieces
pub mod Programs
pub mod Expressions
