pub mod GrantCounts
