pub mod WrittenLists
pub mod LinesOf
