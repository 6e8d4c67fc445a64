-- The ranges of a file's variables.
pub mod Range
pub mod State
