pub mod OutLists
