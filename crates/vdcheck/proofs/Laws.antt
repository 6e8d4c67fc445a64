-- Laws of the definitions.
pub mod Printing
