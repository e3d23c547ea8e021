pub mod placed
