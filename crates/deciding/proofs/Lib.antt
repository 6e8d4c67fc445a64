pub mod Laws
pub mod Computing
mod Sharp
