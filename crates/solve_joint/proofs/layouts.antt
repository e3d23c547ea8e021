pub mod NumberReads
