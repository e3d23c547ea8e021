pub mod NamedRates
