pub mod ExtendedLaws
