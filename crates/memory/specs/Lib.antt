-- In reading order.
pub mod Memory
pub mod Parts
