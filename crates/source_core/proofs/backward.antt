pub mod Items
pub mod Completed
pub mod Middle
pub mod Reverse
pub mod Backward
