-- What expressions are worth in a state.
pub mod Expression
pub mod Spans
pub mod Fits
