pub mod Lines
pub mod Texts
pub mod Keys
pub mod Rows
pub mod Joining
pub mod GroupRows
pub mod GidSteps
