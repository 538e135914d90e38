pub mod Scalars
pub mod Globs
pub mod Stars
