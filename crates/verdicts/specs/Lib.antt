-- The verdict on a file, and the single test: which conditions are true, and the first break.
pub mod Verdict
