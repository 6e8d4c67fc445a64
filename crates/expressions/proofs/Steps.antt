-- What the proofs of the code share.
pub mod Span
pub mod Expression
