pub mod steps
pub mod points
pub mod edges
pub mod paths
pub mod Each
pub mod constants
pub mod faults
pub mod at_checks
