-- The verification conditions of a file's diagram, in the order of their numbers.
pub mod Edges
pub mod Condition
pub mod Layout
