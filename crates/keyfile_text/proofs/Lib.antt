pub mod Cleans
pub mod Trims
pub mod Cutting
pub mod RawLines
pub mod Merges
pub mod Copies
pub mod Decodes
