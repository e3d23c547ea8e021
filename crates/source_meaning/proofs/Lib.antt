pub mod results
pub mod names
pub mod limits
pub mod expressions
pub mod changes
pub mod statements
pub mod walk
