pub mod NextPick
pub mod OfferStops
pub mod Offered
pub mod Unknowns
