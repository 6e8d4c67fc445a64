-- Laws of the definitions, for the proofs here and in the crates above.
pub mod Transition
pub mod Readable
pub mod Step
pub mod Picks
