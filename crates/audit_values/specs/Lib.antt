pub mod Values
pub mod Policies
pub mod Worlds
pub mod Answers
pub mod Events
pub mod Entries
