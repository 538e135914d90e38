pub mod Batches
pub mod Counted
pub mod Greatest
pub mod Least
pub mod Longest
pub mod Outputs
