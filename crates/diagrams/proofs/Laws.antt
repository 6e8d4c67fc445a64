pub mod Diagram
pub mod Start
pub mod System
pub mod Truth
