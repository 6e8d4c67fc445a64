-- The interval of each expression, and refusal 8.
pub mod Expression
pub mod Interval
