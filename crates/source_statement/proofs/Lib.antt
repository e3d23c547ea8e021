pub mod spelled
pub mod kinds
pub mod left
pub mod steps
pub mod parts
