pub mod Codes
pub mod Commands
pub mod Faults
pub mod Generate
pub mod Piped
pub mod Replayed
pub mod Served
pub mod Promises
