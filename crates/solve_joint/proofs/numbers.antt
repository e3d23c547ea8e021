pub mod NodeFacts
