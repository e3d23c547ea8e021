pub mod JumpTurn
pub mod LeftOver
pub mod ListedLows
pub mod RaiseList
pub mod RateTurn
