-- What the proofs of the code share.
pub mod Number
