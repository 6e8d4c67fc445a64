-- The definitions, by topic.
pub mod Bytes
pub mod Interval
pub mod Inside
pub mod Quotient
pub mod Floor
pub mod Radix
pub mod Tests
