pub mod Journal
pub mod Refusals
pub mod Collecting
pub mod Entered
pub mod Kept
pub mod Unlisting
