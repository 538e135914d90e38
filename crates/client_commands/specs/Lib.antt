pub mod Options
pub mod CheckCommand
pub mod CheckPlans
pub mod AgentCommand
pub mod AgentPlans
