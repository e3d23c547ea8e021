pub mod OneOffer
