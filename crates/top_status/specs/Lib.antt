pub mod Status
pub mod CheckMessages
pub mod Messages
pub mod Parts
pub mod Events
