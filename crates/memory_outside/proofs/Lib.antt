pub mod Chains
pub mod Capped
pub mod Watching
