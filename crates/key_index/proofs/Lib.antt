pub mod Comparing
pub mod Keyed
