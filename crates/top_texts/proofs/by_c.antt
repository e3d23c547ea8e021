pub mod InSource
