pub mod Collecting
pub mod Texts
pub mod Writes
pub mod Written
pub mod Promising
