-- In reading order.
pub mod Archive
pub mod Segments
pub mod Text
pub mod Written
pub mod Claims
