pub mod results
pub mod forms
pub mod limits
pub mod meaning
pub mod proper
