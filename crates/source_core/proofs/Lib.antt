pub mod forms
pub mod preludes
pub mod expressions
pub mod runs
pub mod backward
