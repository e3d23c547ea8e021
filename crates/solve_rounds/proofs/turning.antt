pub mod FoundFacts
pub mod LayoutReads
pub mod OthersKept
pub mod OutcomeFacts
pub mod TurnItems
pub mod Turned
pub mod TurnedBy
