-- Which states there are, and their numbers.
pub mod State
pub mod Ranges
pub mod Number
pub mod Advance
