pub mod Journals
pub mod Lasting
pub mod Machines
pub mod Passes
