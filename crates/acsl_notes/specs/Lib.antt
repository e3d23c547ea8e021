pub mod Clauses
pub mod Texts
pub mod Laws
pub mod View
pub mod Written
