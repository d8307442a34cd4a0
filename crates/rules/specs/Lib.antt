-- In reading order.
pub mod After
pub mod Ready
