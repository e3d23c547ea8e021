pub mod ListedItems
pub mod PointTurn
pub mod RayTurn
pub mod Joined
pub mod RoundAgrees
