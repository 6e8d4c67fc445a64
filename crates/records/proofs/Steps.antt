-- The definitions one step at a time, as the code goes.
pub mod Record
pub mod Walk
