pub mod Firsts
pub mod Follows
pub mod Refused
pub mod Shaken
pub mod Taken
pub mod Waited
