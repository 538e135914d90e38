pub mod Known
pub mod Finding
pub mod Changes
