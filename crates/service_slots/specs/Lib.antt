pub mod Served
pub mod Doors
pub mod Stops
pub mod Ending
