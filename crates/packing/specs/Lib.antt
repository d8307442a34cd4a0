-- In reading order.
pub mod Pack
pub mod Order
pub mod ByAreas
