pub mod CheckTests
pub mod Numbers
pub mod Ranges
pub mod Sequence
pub mod Supply
pub mod Whole
