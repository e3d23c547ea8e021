pub mod IntoNumbers
pub mod UpperLists
