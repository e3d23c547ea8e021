pub mod Answering
pub mod Loaded
pub mod Failing
pub mod Ended
pub mod Headlined
pub mod Plain
