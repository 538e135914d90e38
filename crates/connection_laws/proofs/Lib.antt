pub mod Growing
pub mod Doing
pub mod Taking
pub mod Finding
pub mod Refused
