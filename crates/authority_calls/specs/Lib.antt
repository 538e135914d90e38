pub mod Methods
pub mod Arguments
pub mod Dictionaries
pub mod Subjects
pub mod Calls
pub mod Events
