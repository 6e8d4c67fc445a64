pub mod Laws
mod Counter
mod Examples
mod Witness
