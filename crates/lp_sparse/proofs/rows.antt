pub mod RowsAt
pub mod Dividing
pub mod Answering
pub mod RowsOver
pub mod Exchanging
