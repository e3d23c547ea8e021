pub mod Picks
pub mod PolicyLaw
