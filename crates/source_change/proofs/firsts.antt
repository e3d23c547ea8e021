pub mod Going
pub mod Words
pub mod Taken
pub mod Ends
