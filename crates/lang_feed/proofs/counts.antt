pub mod Counts
pub mod WholeTexts
