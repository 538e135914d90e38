pub mod Allowing
pub mod Sends
