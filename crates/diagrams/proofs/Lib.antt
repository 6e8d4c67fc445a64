pub mod Laws
mod Steps
pub mod Files
pub mod Computing
pub mod Values
mod Examples
