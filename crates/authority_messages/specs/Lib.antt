pub mod Plain
pub mod Values
pub mod Outgoing
pub mod Built
pub mod Messages
pub mod Texts
