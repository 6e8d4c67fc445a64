-- What the program prints.
pub mod Printing
