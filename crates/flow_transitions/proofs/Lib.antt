pub mod choosing
pub mod counted
pub mod made
pub mod along
pub mod progress
pub mod grammar
pub mod trees
pub mod walking
