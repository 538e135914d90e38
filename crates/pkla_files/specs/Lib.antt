pub mod Entries
pub mod Returned
pub mod Faults
pub mod Orders
