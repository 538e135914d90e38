pub mod Unlisting
pub mod Betweens
pub mod Watching
mod Resting
mod Lookouts
