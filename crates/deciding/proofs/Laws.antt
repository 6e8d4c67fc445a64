pub mod Tests
pub mod Decision
