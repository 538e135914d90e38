pub mod Asked
pub mod Told
pub mod Endings
pub mod Checks
