-- Boxes of states, and their halves.
pub mod Box
pub mod Half
