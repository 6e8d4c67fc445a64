-- The search of whole boxes of states for one that breaks a condition.
pub mod Search
pub mod Budget
pub mod Scan
