pub mod Writing
pub mod Onto
pub mod Items
pub mod Steps
pub mod Entries
