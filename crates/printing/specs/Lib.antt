-- In reading order.
pub mod Put
