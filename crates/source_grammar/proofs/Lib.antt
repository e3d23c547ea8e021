pub mod view
pub mod faults
pub mod grammar
