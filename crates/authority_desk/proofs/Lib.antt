pub mod Bounds
pub mod Counting
pub mod Carrying
pub mod Viewing
pub mod Entering
pub mod Stepping
