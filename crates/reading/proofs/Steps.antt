-- The definitions one step at a time, as the code goes.
pub mod Any
pub mod States
pub mod Edge
pub mod Picks
