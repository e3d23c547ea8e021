pub mod Binds
pub mod Ends
pub mod Kinds
pub mod Parsed
pub mod Turns
pub mod Means
pub mod Trees
pub mod Leads
