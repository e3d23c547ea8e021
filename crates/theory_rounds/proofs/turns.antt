pub mod FactsAgree
pub mod Coming
