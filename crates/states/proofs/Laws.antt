-- Laws of the definitions, for the proofs here and in the crates above.
pub mod State
pub mod Number
pub mod Order
pub mod Between
