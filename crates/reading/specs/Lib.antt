-- Refusals 7 to 10 and 22, in their order, and the whole.
pub mod States
pub mod Picks
pub mod Edge
pub mod Fits
pub mod Read
pub mod Readable
