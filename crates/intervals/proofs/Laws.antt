-- Laws of the definitions, for the proofs here and in the crates above.
pub mod Interval
pub mod Expression
pub mod Scan
pub mod Combine
pub mod Outside
pub mod Local
