-- In reading order.
pub mod Step
pub mod Performed
pub mod Reply
pub mod Acted
