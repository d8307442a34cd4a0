-- In reading order.
pub mod Rewind
pub mod Cases
