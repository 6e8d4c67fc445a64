-- What a diagram is made of: the table of properties, edges; and the refusals.
pub mod Property
pub mod Edge
pub mod Refusal
