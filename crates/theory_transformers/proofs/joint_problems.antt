pub mod JointProducts
pub mod JointRows
pub mod JointMeaning
pub mod Rises
pub mod JointLists
pub mod JointBest
pub mod JointTight
pub mod JointRay
pub mod JointLows
pub mod JumpSteps
pub mod RaySteps
pub mod RayVector
mod PointExample
pub mod JointTurns
