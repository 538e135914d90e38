pub mod Growing
pub mod Batching
pub mod Held
pub mod Readiness
