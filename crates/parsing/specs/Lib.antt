-- What a file is, in the order in which it is read.
pub mod Outline
pub mod Refusal
