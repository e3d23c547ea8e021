pub mod Words
pub mod Annotated
pub mod Messages
pub mod Inside
