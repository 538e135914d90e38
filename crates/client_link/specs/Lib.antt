pub mod Faults
pub mod Following
pub mod Messages
pub mod Sending
pub mod Shakings
