-- Laws of the definitions, for the proofs here and in the crates above.
pub mod Fits
pub mod Outside
pub mod Stage
pub mod States
pub mod Scan
pub mod Picks
pub mod Edge
pub mod Refusal
pub mod Readable
