pub mod EachPart
pub mod NextPart
pub mod Parting
pub mod Partings
pub mod RoundMade
pub mod RoundRaises
pub mod TurnStops
