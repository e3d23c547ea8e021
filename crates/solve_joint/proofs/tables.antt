pub mod Entries
pub mod ReachTables
