pub mod PathLaw
