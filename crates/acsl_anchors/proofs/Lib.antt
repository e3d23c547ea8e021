pub mod Variables
pub mod machine
pub mod standing
pub mod walked
