-- What expressions are worth on a box of states.
pub mod Enclosure
