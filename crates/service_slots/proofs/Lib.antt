pub mod Told
pub mod Growing
pub mod Fresh
pub mod Backs
pub mod Stopping
pub mod Same
pub mod Watching
