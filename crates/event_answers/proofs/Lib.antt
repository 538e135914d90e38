pub mod Walking
pub mod Callers
pub mod Silences
pub mod GrantTexts
pub mod Living
pub mod Permitted
pub mod Openings
