pub mod Indexes
pub mod WorldIndexes
