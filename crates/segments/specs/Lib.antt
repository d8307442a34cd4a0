-- In reading order.
pub mod ByAreas
pub mod ByPages
