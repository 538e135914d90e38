pub mod Adding
pub mod Configured
