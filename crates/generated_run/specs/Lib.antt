pub mod Setup
pub mod Run
pub mod Summaries
pub mod Kept
pub mod Stops
