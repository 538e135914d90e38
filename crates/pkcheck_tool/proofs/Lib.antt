pub mod Asked
pub mod Completing
pub mod Conversing
pub mod InRange
pub mod Told
pub mod Visiting
