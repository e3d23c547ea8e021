pub mod RowParts
