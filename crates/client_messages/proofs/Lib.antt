pub mod Calling
pub mod Reading
pub mod Understood
pub mod Telling
pub mod Short
pub mod Bodies
pub mod Others
