pub mod chains
pub mod halts
pub mod least_laws
pub mod growth_tests
