pub mod transformers
pub mod chains
pub mod offers
