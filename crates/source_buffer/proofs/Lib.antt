pub mod Takings
pub mod Rooms
