pub mod SmallConditions
pub mod Expressions
pub mod StatementPieces
pub mod Statements
