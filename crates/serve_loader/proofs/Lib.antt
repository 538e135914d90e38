pub mod Advancing
pub mod Going
