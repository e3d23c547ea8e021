pub mod Exceeding
pub mod Improved
pub mod OfferLists
pub mod Settled
