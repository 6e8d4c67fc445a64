-- Laws of the definitions, for the proofs here and in the crates above.
pub mod Outline
pub mod Refusal
pub mod Parsed
pub mod Through
