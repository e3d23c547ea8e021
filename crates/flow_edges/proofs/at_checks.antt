pub mod Lasting
pub mod Onward
pub mod SinceMark
pub mod CheckLaw
