pub mod Building
pub mod Planning
