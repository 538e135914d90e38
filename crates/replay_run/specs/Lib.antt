pub mod Audited
pub mod Counted
pub mod Faults
pub mod Lines
pub mod Promises
pub mod Replay
pub mod Rooted
pub mod Telling
