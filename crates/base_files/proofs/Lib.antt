pub mod puts
pub mod faults
