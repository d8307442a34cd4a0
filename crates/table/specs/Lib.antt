-- In reading order.
pub mod Store
pub mod Backing
pub mod Virtual
