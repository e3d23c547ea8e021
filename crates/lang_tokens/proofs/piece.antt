pub mod CTokens
