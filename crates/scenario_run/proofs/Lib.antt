pub mod Entering
pub mod Begun
pub mod Loads
pub mod Cuts
pub mod Written
pub mod Newest
pub mod Counting
pub mod Recorded
