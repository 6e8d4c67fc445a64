pub mod Half
pub mod Order
