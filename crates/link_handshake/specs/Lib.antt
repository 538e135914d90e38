pub mod Lines
pub mod Digits
pub mod Answers
pub mod Shakes
pub mod Machines
pub mod Replies
pub mod Clients
