pub mod Rows
pub mod Places
pub mod Counts
pub mod Book
