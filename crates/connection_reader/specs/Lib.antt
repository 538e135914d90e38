pub mod Hands
pub mod Reading
pub mod Stops
