pub mod FewCells
