pub mod Calling
pub mod Causes
pub mod Entering
pub mod Growing
pub mod Readying
pub mod Refusing
