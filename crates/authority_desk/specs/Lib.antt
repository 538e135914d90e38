pub mod Numbers
pub mod Stored
pub mod Seen
pub mod Counts
