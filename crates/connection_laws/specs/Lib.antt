pub mod Doings
pub mod Knowing
pub mod Takings
