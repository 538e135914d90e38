pub mod Glob
pub mod Fits
