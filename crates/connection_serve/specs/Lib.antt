pub mod Ends
pub mod Headline
pub mod Halves
pub mod Live
pub mod Promises
