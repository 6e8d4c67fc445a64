-- What the proof of a loop needs.
pub mod Printing
