pub mod Pieces
pub mod Reports
pub mod Values
pub mod States
pub mod Entries
pub mod Uris
pub mod Told
