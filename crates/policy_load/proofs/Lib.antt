pub mod Sorting
pub mod PathTexts
pub mod Gathered
pub mod Texts
pub mod Bounds
pub mod Steps
pub mod Administrators
