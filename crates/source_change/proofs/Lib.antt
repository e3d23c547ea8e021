pub mod results
pub mod limited
pub mod lists
pub mod changed
pub mod loops
pub mod spelled
pub mod kinds
pub mod firsts
