-- Whether a condition holds at a state: the condition prepared for its tests.
pub mod Holding
pub mod Testing
