pub mod Texts
pub mod TooLarge
pub mod Cuts
