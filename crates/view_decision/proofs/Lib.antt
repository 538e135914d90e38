pub mod Least
pub mod LeastAction
