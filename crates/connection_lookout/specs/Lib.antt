pub mod Resting
pub mod Unlistings
pub mod Watching
