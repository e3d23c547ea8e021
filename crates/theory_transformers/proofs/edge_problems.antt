pub mod EdgePoints
pub mod TransformerOf
pub mod SplitProblems
