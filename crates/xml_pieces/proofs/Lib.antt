pub mod Loops
pub mod KeyLists
pub mod AttributeMaps
