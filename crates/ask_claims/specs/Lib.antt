pub mod Truth
pub mod AllVerdicts
pub mod Lines
pub mod Laws
pub mod Grammar
pub mod Claims
pub mod Steps
