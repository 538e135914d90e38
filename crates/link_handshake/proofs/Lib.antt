pub mod UidDigits
pub mod Fronts
pub mod Texts
pub mod Steps
pub mod Runs
