-- Laws of the definitions, for the proofs here and in the crates above.
pub mod Connect
pub mod Expression
pub mod Sound
pub mod Span
pub mod Part
pub mod Operand
pub mod Local
