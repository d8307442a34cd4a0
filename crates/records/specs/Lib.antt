-- In reading order.
pub mod Record
pub mod Sound
