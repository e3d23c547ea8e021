pub mod formats
