pub mod Feeds
pub mod Opens
pub mod Replying
