pub mod EdgeCounts
