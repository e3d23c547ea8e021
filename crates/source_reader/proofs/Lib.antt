pub mod Counting
pub mod Firsts
pub mod Going
pub mod Placing
