-- Laws of the definitions, for the proofs here and in the crates above.
pub mod Record
pub mod Kind
pub mod Walk
pub mod Span
pub mod Refuse
pub mod Place
pub mod Refused
pub mod Local
pub mod Asked
