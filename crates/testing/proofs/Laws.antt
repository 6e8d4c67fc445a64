pub mod Targets
pub mod Marks
pub mod Testing
pub mod Boxes
pub mod Holding
