pub mod Deadness
pub mod Ending
pub mod Explaining
pub mod Firsts
pub mod Ruling
pub mod Writing
