-- In reading order.
pub mod Named
pub mod Marks
