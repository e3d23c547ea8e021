pub mod InOrder
pub mod CutItems
