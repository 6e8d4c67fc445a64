pub mod Property
pub mod Edge
