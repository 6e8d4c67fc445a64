pub mod Lowest
pub mod Diagram
pub mod Run
pub mod Falling
pub mod Ranked
pub mod Chain
pub mod WaitFor
pub mod Invariance
