pub mod DecisionRef
pub mod Owners
