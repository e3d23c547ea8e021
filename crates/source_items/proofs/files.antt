pub mod Every
pub mod Lemmas
