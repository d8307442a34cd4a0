-- In reading order.
pub mod Areas
pub mod Formed
pub mod Order
pub mod Walk
