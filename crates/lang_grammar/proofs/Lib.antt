pub mod view
pub mod faults
pub mod depth
pub mod grammar
pub mod phrase
