pub mod WholeTokens
pub mod Pieces
pub mod LineNumbers
pub mod Decimals
pub mod Machines
pub mod TextReads
pub mod BodyLimits
