pub mod RationalStates
pub mod FreeValueLaw
pub mod Soundness
pub mod Summed
pub mod Sizes
pub mod Checked
