pub mod limits
pub mod edge_problems
pub mod joint_problems
pub mod joint_points
pub mod parts
pub mod spread
