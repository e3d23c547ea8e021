pub mod ElementLemmas
pub mod StepLaw
pub mod Walk
pub mod Reach
pub mod Followed
