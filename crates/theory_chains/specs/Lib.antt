pub mod Transformers
pub mod Offers
pub mod Chains
pub mod Laws
