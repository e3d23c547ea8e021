pub mod PutVector
pub mod Puts
