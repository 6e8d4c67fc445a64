-- The records of a file: what each may be, and the walk through those of an expression.
pub mod Record
pub mod Kind
pub mod Form
pub mod Walk
pub mod Place
pub mod Asked
