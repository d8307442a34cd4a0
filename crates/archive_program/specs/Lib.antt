-- In reading order.
pub mod Sandbox
pub mod Performed
pub mod Prints
