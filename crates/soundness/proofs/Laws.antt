pub mod System
pub mod Sound
