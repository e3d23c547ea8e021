pub mod WithConstants
