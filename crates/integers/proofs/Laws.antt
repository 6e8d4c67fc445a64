-- Laws of the definitions and of signed arithmetic, for the proofs here and in the crates above.
pub mod Parts
pub mod Equality
pub mod Elements
pub mod Signed
pub mod Bytes
pub mod Bounds
pub mod Interval
pub mod Floor
pub mod Radix
