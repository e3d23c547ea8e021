pub mod UpperRead
