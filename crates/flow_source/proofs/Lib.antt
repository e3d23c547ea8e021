pub mod by_c
