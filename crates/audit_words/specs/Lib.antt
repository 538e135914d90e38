pub mod Codecs
pub mod Lines
pub mod Faults
pub mod Digits
pub mod Escapes
pub mod Reads
pub mod Salts
pub mod Buffers
