pub mod Calls
pub mod Answers
pub mod Agents
pub mod Others
pub mod Told
