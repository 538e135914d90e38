pub mod Lines
pub mod Audit
pub mod Faults
pub mod Outcomes
pub mod Reads
pub mod Takes
pub mod Pieces
pub mod Writes
