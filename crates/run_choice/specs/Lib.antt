-- In reading order.
pub mod Runs
pub mod Keeping
