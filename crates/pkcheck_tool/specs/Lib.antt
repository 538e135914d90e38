pub mod Asking
pub mod Checks
pub mod Replies
pub mod Statuses
