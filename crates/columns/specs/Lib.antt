-- In reading order.
pub mod Sizes
pub mod Prints
pub mod Fields
pub mod Reading
