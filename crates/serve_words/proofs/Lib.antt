pub mod Doors
pub mod Checked
pub mod Rooms
