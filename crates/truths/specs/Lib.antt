-- Truths, and tests of numbers in a row.
pub mod Truth
pub mod Search
pub mod Table
pub mod Listed
