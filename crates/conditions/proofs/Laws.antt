pub mod Each
pub mod Double
pub mod Condition
pub mod Listed
