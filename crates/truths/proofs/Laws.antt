-- Laws of the definitions, for the crates above.
pub mod Truth
pub mod Any
pub mod First
pub mod Answer
pub mod Table
pub mod Listed
