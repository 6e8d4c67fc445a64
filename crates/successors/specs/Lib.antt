-- Where transitions lead from a box of states.
pub mod Successor
