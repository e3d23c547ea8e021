pub mod Alike
pub mod OnwardSteps
