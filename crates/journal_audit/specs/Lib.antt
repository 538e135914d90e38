pub mod Fault
pub mod Steps
