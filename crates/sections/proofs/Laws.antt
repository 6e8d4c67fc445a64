-- Laws of the definitions, for the proofs here and in the crates above.
pub mod Section
pub mod Property
pub mod Edge
pub mod Counted
pub mod Refused
