pub mod Anchors
pub mod View
pub mod Laws
pub mod Parts
pub mod Machine
pub mod Search
