pub mod Accounts
pub mod Cases
pub mod Dead
pub mod Explains
pub mod Lines
pub mod Words
