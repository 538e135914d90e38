pub mod Readings
mod Stopping
