pub mod Due
pub mod Text
pub mod Segments
pub mod Steps
