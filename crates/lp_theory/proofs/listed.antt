pub mod ListedSums
