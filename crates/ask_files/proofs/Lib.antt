pub mod loads
