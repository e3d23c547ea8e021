pub mod OnePosition
