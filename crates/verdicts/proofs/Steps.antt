-- What the proofs of the code's loops share.
pub mod Verdict
