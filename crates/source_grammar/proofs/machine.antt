pub mod Goes
pub mod Finish
pub mod BackPieces
pub mod BackDeclared
pub mod BackHead
pub mod Back
pub mod Meaning
pub mod Tokens
