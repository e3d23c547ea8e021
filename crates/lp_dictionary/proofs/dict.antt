pub mod DictReads
