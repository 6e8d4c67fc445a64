-- The diagram of a file, with its system: what judging speaks of.
pub mod Diagram
pub mod Truth
pub mod Start
pub mod System
pub mod Promise
