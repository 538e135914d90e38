pub mod Doors
pub mod Told
pub mod Words
