pub mod Forms
pub mod Headers
pub mod Nexts
