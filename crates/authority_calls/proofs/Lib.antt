pub mod Behind
pub mod Many
pub mod Said
mod EventExamples
