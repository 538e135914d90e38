pub mod Plans
pub mod Doors
