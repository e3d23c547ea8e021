pub mod Needed
pub mod Fitted
pub mod Dense
pub mod Checked
pub mod Laws
