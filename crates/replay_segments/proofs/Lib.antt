pub mod Ends
pub mod Filing
