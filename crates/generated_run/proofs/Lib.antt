pub mod Entering
pub mod Steps
pub mod Leading
