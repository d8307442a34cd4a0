-- In reading order.
pub mod Compare
pub mod Differences
