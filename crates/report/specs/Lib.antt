-- The report of a verdict.
pub mod Report
